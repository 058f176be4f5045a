pub mod Degrees
pub mod Places
pub mod Steps
pub mod Sums
mod TermProducts
