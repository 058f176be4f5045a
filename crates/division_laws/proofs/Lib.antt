pub mod Dividing
pub mod Generating
pub mod Keeping
pub mod Remainders
pub mod Replacing
pub mod Sinking
pub mod Standard
pub mod SumLeads
