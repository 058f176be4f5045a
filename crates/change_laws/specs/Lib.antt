-- what public clauses cite
pub mod Standard
pub mod Combinations
pub mod Echelons
pub mod Changes
