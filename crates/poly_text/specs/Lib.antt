-- what public clauses cite
pub mod Texts
pub mod Names
pub mod Printable
-- invariants of loops
pub mod Writing
