pub mod Ranks
pub mod Multiplied
