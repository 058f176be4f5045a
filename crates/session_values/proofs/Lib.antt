pub mod Values
pub mod Appending
mod DegreeLines
mod Dividing
mod Leading
pub mod OneModule
