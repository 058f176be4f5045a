pub mod Trails
pub mod Closings
pub mod Copied
