pub mod Jobs
pub mod Taking
pub mod Trails
pub mod Leaving
