-- what public clauses cite
pub mod Endings
pub mod Stops
pub mod Copies
