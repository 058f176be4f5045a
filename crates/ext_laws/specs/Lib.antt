pub mod Transposes
