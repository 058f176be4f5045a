pub mod KeySums
pub mod ProductEntries
pub mod ColumnHashes
