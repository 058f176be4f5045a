pub mod Writing
pub mod Runs
pub mod Entries
pub mod Splitting
pub mod Decimals
pub mod Terms
pub mod Values
