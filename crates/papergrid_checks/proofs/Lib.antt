pub mod AnswerLemmas
pub mod CsvLemmas
pub mod CertificateLemmas
pub mod DocumentLemmas
pub mod RowLemmas
pub mod WrittenLemmas
