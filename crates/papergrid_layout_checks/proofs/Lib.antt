pub mod ColumnWidths
pub mod Sized
