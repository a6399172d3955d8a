-- What no contract of the facade's calls reaches, and no law: only contracts of functions below them and proofs speak of it.
pub mod Checking
pub mod Earlier
pub mod Placing
pub mod Points
pub mod Rulers
pub mod Spanning
pub mod Tables
