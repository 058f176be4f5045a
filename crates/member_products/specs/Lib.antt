-- what public clauses cite
pub mod Generators
pub mod Propositions
pub mod Members
