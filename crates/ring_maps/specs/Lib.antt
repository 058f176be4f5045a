pub mod Maps
pub mod Graphs
pub mod GraphRings
pub mod GraphSteps
pub mod Multiples
