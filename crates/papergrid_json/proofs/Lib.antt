pub mod DrawLemmas
pub mod EachLemmas
pub mod OneLemmas
pub mod PartLemmas
pub mod RecordLemmas
pub mod SpotLemmas
pub mod UnknownLemmas
