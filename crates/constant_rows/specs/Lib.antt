-- what public clauses cite
pub mod Rows
