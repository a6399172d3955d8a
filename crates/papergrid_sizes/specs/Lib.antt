-- Definitions: what the arguments of the program ask for.
pub mod Arguments
pub mod ForProofs
