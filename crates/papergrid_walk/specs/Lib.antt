-- The definitions that the contracts cite.
pub mod Cells
pub mod Measures
pub mod ForProofs
