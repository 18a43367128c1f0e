-- What only private functions cite.
pub mod Scan
pub mod Telling
pub mod Sending
