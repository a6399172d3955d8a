-- Definitions: a table that is built call by call, and what its calls answer.
pub mod Calls
pub mod Errors
pub mod Layouts
pub mod Pictures
pub mod BuilderStates
pub mod ForProofs
