-- What no contract of the facade's calls reaches, and no law: only contracts of functions below them and proofs speak of it.
pub mod Filters
pub mod MaxTree
pub mod Limits
pub mod Paddings
pub mod Pairs
pub mod Shown
pub mod Swept
pub mod Visits
