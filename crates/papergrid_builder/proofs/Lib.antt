pub mod DrawLemmas
pub mod TextLemmas
