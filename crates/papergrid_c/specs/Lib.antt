pub mod Asked
pub mod Calls
pub mod Handle
pub mod Numbers
pub mod Settings
