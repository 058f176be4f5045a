pub mod Kernels
pub mod Syzygies
