pub mod Echelons
pub mod Jobs
pub mod NewRows
pub mod RowSpans
pub mod SpansAlike
