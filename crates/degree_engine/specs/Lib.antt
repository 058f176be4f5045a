pub mod LastVariables
pub mod Resorted
