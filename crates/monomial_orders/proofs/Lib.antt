pub mod Comparing
pub mod PlaceByPlace
pub mod Totals
pub mod Over
pub mod Filling
pub mod Masks
