-- What only private functions cite.
pub mod Steps
pub mod Totals
pub mod Meetings
pub mod Queries
pub mod Lookup
pub mod Moving
pub mod Making
pub mod Within
pub mod Looking
