-- what public clauses cite
pub mod Names
pub mod Texts
pub mod Answers
pub mod Operations
pub mod Runs
pub mod Tasks
pub mod Held
pub mod Kept
pub mod Numbers
pub mod Counting
pub mod Resolving
pub mod Extending
pub mod Writing
