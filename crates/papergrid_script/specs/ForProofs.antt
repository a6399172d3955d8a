-- What no contract of the public calls reaches, and no law: only contracts of functions below them and proofs speak of it.
pub mod Drafts
pub mod Escapes
pub mod Read
pub mod Sized
