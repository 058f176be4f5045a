-- what public clauses cite: nothing but what the crates below define
-- what a product keeps on the way
pub mod Digits
pub mod Tables
