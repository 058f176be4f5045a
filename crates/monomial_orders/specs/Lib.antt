-- what public clauses cite
pub mod Kept
pub mod Monomials
pub mod Comparisons
pub mod Laws
-- what a type keeps, and what private clauses cite
pub mod Differences
pub mod Storage
