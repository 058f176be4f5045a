-- what public clauses cite
pub mod Ext
-- rows and unit vectors on the way
pub mod Rows
pub mod Units
