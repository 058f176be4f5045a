-- what public clauses cite
pub mod Limits
pub mod Lines
pub mod Meaning
pub mod Run
pub mod Scripts
pub mod Stops
pub mod Told
-- what private clauses cite
pub mod Parts
