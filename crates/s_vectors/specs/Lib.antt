-- what public clauses cite
pub mod Trails
-- invariants of loops
pub mod Parts
pub mod PairProducts
pub mod Divided
pub mod Solutions
