pub mod CombinedSums
pub mod Differences
pub mod RunMembers
