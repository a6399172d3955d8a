-- Definitions that private functions alone are told by.
pub mod Reading
