pub mod Cutting
pub mod Order
pub mod Longest
pub mod Cuts
pub mod Texts
