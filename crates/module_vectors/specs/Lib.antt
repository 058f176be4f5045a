-- what public clauses cite
pub mod Products
pub mod ProductStops
pub mod Trails
