pub mod Counted
pub mod Standing
pub mod Marks
pub mod LoweredTerms
pub mod KernelSteps
pub mod Generated
pub mod LeftOver
pub mod OneLift
pub mod VectorLists
pub mod RunAnswers
pub mod ModuloRuns
mod ModuloNothing
