-- what public clauses cite
pub mod Stops
pub mod Reordered
-- what the code keeps
pub mod Lists
pub mod Forms
pub mod Products
pub mod Tables
pub mod Changing
pub mod Rows
