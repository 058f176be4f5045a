pub mod Descending
pub mod Merges
pub mod Scaling
mod Copying
pub mod Parts
pub mod Rescaling
pub mod Gathers
pub mod NormalVectors
pub mod Monomials
