-- what public clauses cite
pub mod Remainders
-- invariants of loops
pub mod Hashed
pub mod Leaving
pub mod UnderWay
