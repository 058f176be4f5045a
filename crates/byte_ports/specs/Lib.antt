-- what public clauses cite
pub mod Causes
pub mod InMemory
pub mod Lines
