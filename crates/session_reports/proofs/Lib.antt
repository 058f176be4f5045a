mod Appended
pub mod Variables
mod Reporting
mod MinimalMaps
pub mod Stopping
pub mod KeptValues
pub mod Counted
mod Extended
