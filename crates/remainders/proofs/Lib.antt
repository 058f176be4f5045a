pub mod Hashing
pub mod Flagging
pub mod Resting
pub mod Leaving
pub mod Starting
pub mod Keeping
pub mod Padded
