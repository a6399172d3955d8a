pub mod ArgumentLemmas
mod CharacterLemmas
mod CutLemmas
mod DescribesLemmas
mod DraftLemmas
mod EscapeLemmas
mod EstimateLemmas
pub mod Estimated
mod LastByteLemmas
mod LawLemmas
mod LineLemmas
mod ListedLemmas
mod MarkLemmas
mod OutcomeLemmas
mod RangeLemmas
mod ReadLemmas
mod ReasonLemmas
pub mod RunLemmas
mod ScriptLemmas
mod ScriptLineLemmas
mod SeenLemmas
mod SpellLemmas
