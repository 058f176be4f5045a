-- what public clauses cite
pub mod Forms
pub mod RingForms
pub mod Written
