-- The definitions that the contracts of the callers cite.
pub mod ColumnWidths
pub mod Strings
