-- Definitions: what the arguments of the program ask for, and what is written of its input.
pub mod Arguments
pub mod Options
pub mod Pictures
pub mod Places
pub mod Spans
pub mod Statuses
pub mod Values
pub mod Wide
pub mod Witness
pub mod ForProofs
