pub mod Same
pub mod Coefs
pub mod Apart
pub mod Lists
pub mod Loops
pub mod Positions
pub mod Division
pub mod Sieves
