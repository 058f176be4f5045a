-- what public clauses cite
pub mod Laws
pub mod Ways
pub mod Reaching
pub mod Spans
pub mod PairLeads
pub mod Pairs
pub mod Sifting
pub mod Heads
