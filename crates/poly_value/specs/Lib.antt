-- what public clauses cite
pub mod Values
-- invariants of loops
pub mod Parts
