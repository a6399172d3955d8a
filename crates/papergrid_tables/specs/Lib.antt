pub mod BorderCalls
pub mod StoredBorders
pub mod BorderSame
pub mod BorderScan
pub mod LineTests
pub mod Overrides
pub mod BorderParts
pub mod ForProofs
