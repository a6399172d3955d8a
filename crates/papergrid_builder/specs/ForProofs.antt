-- What no contract of a public call reaches: only contracts of functions below them and proofs speak of it.
pub mod Codes
pub mod Kept
pub mod Sizes
pub mod Texts
