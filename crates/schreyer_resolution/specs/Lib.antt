-- invariants of loops
pub mod Steps
pub mod Covered
pub mod Columns
pub mod Chains
pub mod Sorting
pub mod Progress
pub mod Turns
pub mod FreeKeys
pub mod Marking
pub mod Sharing
