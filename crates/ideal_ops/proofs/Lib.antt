pub mod Shared
pub mod Free
pub mod GradedOrders
mod Witness
mod Dividing
mod SyzygyAnswers
mod Multiplied
mod FrontBases
mod OneMoreVariable
mod Stacked
mod CoprimeLeads
mod ColonItself
mod Room
