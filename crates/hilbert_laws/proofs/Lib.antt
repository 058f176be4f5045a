pub mod Steps
pub mod Recurrence
pub mod Orders
pub mod OneMore
pub mod Sizes
