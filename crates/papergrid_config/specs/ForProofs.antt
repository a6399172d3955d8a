-- What no contract of the facade's calls reaches, and no law: only contracts of functions below them and proofs speak of it.
pub mod Growing
