-- what public clauses cite
pub mod Inducing
pub mod Resolved
-- invariants of loops
pub mod Joining
