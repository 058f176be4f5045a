mod Counted
mod Putting
mod RowVectors
mod UnitLists
mod Steps
mod Presenting
mod Resolved
