pub mod PairsOfLeads
pub mod SparedPairs
