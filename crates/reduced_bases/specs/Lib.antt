pub mod Interreduction
