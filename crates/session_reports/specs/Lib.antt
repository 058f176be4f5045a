-- what the texts of values are
pub mod Lifting
pub mod Expressing
pub mod Reordering
pub mod Minimising
-- what the calls say
pub mod Reporting
pub mod Cancelling
pub mod Asking
pub mod Extensions
pub mod Parts
