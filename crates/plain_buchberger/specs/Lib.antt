-- what public clauses cite
pub mod Engines
pub mod Runs
-- the rounds of a run
pub mod Rounds
