pub mod Counting
pub mod Divisors
pub mod Within
