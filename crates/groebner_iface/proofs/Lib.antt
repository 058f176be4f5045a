mod OneBasis
pub mod CallingRuns
