-- what public clauses cite
pub mod Choosing
-- what the parts do
pub mod Listing
pub mod Steps
