-- what public clauses cite
pub mod Rings
pub mod Vectors
pub mod Stops
pub mod Multiples
pub mod FrontVariables
pub mod Doubling
-- invariants of loops
pub mod Merging
