-- what public clauses cite
pub mod Texts
pub mod Sending
