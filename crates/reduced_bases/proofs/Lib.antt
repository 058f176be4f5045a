pub mod Comparing
pub mod Dropping
pub mod Sorting
pub mod Tails
