-- what public clauses cite
pub mod Command
