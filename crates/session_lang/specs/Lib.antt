-- what public clauses cite
pub mod Lines
pub mod Stops
pub mod Runs
-- what private clauses cite
pub mod Fitting
pub mod Performing
