pub mod NumberedSums
pub mod Taking
pub mod ProductRows
