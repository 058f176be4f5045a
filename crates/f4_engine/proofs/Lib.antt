pub mod Rounds
pub mod Seats
pub mod Begun
