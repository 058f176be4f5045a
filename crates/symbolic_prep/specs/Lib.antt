-- what public clauses cite
pub mod Prepared
pub mod Traces
pub mod Plans
pub mod Counts
pub mod Divisors
pub mod Hashed
pub mod Unary
