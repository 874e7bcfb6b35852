pub mod Entries
pub mod Planning
pub mod Listings
pub mod Listed
