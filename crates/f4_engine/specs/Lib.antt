-- what public clauses cite
pub mod Engines
pub mod Runs
pub mod Workers
