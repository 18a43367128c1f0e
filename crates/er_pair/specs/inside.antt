-- What only private functions cite.
pub mod Entrant
pub mod Opponents
pub mod Places
pub mod Search
pub mod Seats
