pub mod Acting
pub mod May
pub mod Holding
