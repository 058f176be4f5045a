pub mod Barrett
pub mod Done
pub mod LaneMaps
pub mod Products
