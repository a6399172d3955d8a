-- What no contract of the facade's calls reaches, and no law: only contracts of functions below them, proofs and the laws of implementations speak of it.
pub mod Emoji
pub mod Parts
pub mod Runs
pub mod Simple
pub mod TextLaws
