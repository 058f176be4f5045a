pub mod Lifts
pub mod Operations
