-- what public clauses cite
pub mod Script
