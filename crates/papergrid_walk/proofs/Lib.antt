pub mod PassLemmas
pub mod HiddenLemmas
pub mod Distinct
pub mod ShownLemmas
pub mod Steps
pub mod FilterLemmas
pub mod Kept
pub mod AnchorAt
