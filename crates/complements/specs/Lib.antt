-- what public clauses cite
pub mod Complements
-- sums under way
pub mod Combining
