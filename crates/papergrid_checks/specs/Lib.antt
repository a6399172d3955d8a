-- The definitions that the contracts of the callers cite.
pub mod Documents
pub mod Lines
pub mod Readings
pub mod Rows
pub mod Scripts
pub mod Written
