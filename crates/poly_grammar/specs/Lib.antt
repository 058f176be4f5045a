-- what public clauses cite
pub mod Algebras
pub mod Answers
pub mod Degrees
pub mod Lexemes
pub mod Numerals
pub mod Steps
pub mod Trees
-- invariants of loops
pub mod Machine
pub mod Reading
