-- what public clauses cite
pub mod Elimination
pub mod Standard
