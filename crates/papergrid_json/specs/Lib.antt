-- Definitions: what a document tells in JSON, what is known of one that was read, and its picture.
pub mod Documents
pub mod ForProofs
pub mod Pictures
pub mod Settings
pub mod Spots
pub mod Values
