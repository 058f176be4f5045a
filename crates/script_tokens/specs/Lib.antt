-- what public clauses cite
pub mod Cuts
pub mod Tokens
-- invariants of loops
pub mod Scans
