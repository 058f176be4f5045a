pub mod Pairs
pub mod Sparing
pub mod Traces
