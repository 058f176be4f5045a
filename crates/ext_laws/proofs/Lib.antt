pub mod Pairing
pub mod Rows
pub mod Kernels
pub mod Units
pub mod Images
