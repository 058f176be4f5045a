pub mod Terms
pub mod SquareBasis
pub mod SquareMaps
pub mod SquareTable
pub mod SquareNumerator
pub mod WeightedSquare
