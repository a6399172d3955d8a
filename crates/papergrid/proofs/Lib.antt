mod CompactLemmas
mod ConfiguredLemmas
mod EqualLemmas
mod FirstLines
mod GridLemmas
mod HeldLemmas
mod PrintLemmas
pub mod RunLemmas
