-- what public clauses cite
pub mod Members
pub mod Changes
pub mod Propositions
