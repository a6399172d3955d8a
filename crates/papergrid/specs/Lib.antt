pub mod Compact
pub mod Layouts
pub mod Pictures
pub mod Printed
pub mod Sized
pub mod TextRows
