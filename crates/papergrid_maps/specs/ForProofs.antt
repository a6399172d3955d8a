-- What contracts of the facade's calls and laws do not reach, but for `visible_test` of SpanVisible, which is a test
-- with its proof: only contracts of functions below them and proofs speak of it.
pub mod BlankColors
pub mod MapEqLaws
pub mod PaddingLaws
pub mod SpanEq
pub mod SpanIndex
pub mod SpanVisible
pub mod VisibleSearch
