pub mod Stops
pub mod Runs
pub mod Calls
