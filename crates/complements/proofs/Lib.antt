pub mod Plus
pub mod Gathering
