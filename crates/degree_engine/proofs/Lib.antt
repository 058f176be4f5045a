mod AtOne
pub mod LastVariable
mod OneTerms
mod Resorting
