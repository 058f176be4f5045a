pub mod Clearings
pub mod Entries
pub mod Leavings
pub mod Lifting
pub mod Listings
pub mod Meeting
pub mod Numbering
