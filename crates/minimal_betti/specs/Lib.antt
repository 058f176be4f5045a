-- what public clauses cite
pub mod Graded
pub mod Minimising
pub mod Tables
-- what holds while constants leave, and invariants of loops
pub mod Carried
pub mod Complementing
pub mod CountedMaps
pub mod Growing
pub mod Splitting
pub mod Stopping
