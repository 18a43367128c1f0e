-- What only private functions cite.
pub mod Writer
pub mod Lines
