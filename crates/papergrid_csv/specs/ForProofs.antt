-- What no contract of a public call reaches, and no law: only contracts of functions below them and proofs speak of it.
pub mod Cuts
pub mod Drawn
pub mod Escapes
pub mod Judging
pub mod Contexts
pub mod Read
pub mod Solved
pub mod Within
