pub mod Trails
pub mod Leads
pub mod Members
