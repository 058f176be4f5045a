-- what public clauses cite
pub mod Answers
pub mod Places
pub mod Refusals
pub mod Statements
-- what inner calls give
pub mod Tests
