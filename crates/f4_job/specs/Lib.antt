pub mod Flags
pub mod Solved
pub mod Made
pub mod Tails
