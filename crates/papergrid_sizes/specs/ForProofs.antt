-- What no contract of a public call reaches: only contracts of private functions and proofs speak of it.
pub mod Drafts
