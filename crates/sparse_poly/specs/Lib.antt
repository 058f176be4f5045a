-- what public clauses cite
pub mod Degrees
pub mod Powers
pub mod Stops
pub mod Binomials
pub mod TermPowers
-- invariants of loops
pub mod Multiples
pub mod PowerParts
