-- what public clauses cite
pub mod Leads
pub mod Large
-- what the functions within say
pub mod Generators
pub mod Division
