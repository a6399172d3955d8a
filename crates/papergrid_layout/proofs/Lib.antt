pub mod AnswerLemmas
mod CertifiedLemmas
pub mod CheckSteps
pub mod EqualLemmas
mod EstimateLemmas
pub mod LawLemmas
pub mod LeastLaws
pub mod PairLemmas
pub mod PlaceLemmas
pub mod PlaceLaws
pub mod PlaceSums
pub mod MadeLemmas
pub mod MarkLemmas
pub mod PlacingLemmas
pub mod PointLemmas
pub mod SpanningLemmas
pub mod TableLemmas
pub mod Told
pub mod TotalLemmas
