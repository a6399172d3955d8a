-- What no contract of the facade's calls reaches, and no law: only contracts of functions below them and proofs speak of it.
pub mod Checks
pub mod Counts
pub mod Demands
pub mod Followed
pub mod Laid
pub mod LastCells
pub mod LeastSettled
pub mod Limits
pub mod Settled
