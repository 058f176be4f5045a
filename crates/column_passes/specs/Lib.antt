-- what public clauses cite
pub mod Clearing
pub mod Constants
pub mod Passing
pub mod Placing
pub mod Sorting
-- what those of the crates above cite
pub mod ColumnImages
