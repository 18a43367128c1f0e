-- What only private functions cite.
pub mod Words
pub mod Usage
