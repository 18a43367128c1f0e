-- What only private functions cite.
pub mod Counting
pub mod Placing
pub mod Merit
pub mod Opponents
