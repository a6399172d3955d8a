-- The definitions that the contracts cite.
pub mod Applied
pub mod Changed
pub mod ConfigSame
pub mod Grids
pub mod Laws
pub mod Lines
pub mod Made
pub mod Parts
pub mod Queries
pub mod History
pub mod ForProofs
