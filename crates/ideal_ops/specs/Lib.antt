pub mod Answers
pub mod Runs
pub mod Components
pub mod Products
pub mod FrontVariable
pub mod GradedOrders
-- between its steps
pub mod FrontSteps
pub mod CoprimeLeads
