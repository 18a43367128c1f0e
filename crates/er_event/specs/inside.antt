-- What only private functions cite.
pub mod EventFields
pub mod Stages
pub mod Reading
pub mod Seen
pub mod Seats
pub mod Played
