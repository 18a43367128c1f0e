-- What only private functions cite.
pub mod Input
pub mod Unread
pub mod Desk
pub mod Making
pub mod Complaints
pub mod Serving
pub mod Importing
