pub mod Substitution
pub mod Graphs
