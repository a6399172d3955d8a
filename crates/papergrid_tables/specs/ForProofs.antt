-- What contracts of the facade's calls and laws do not reach, but for `line_test` of LineTested, which is a test
-- with its proof: only contracts of functions below them and proofs speak of it.
pub mod BorderCodes
pub mod BorderEq
pub mod CountedLines
pub mod CountedParts
pub mod CountedTable
pub mod Counts
pub mod LineSearch
pub mod LineTested
pub mod Maps
pub mod OffsetEq
pub mod OverrideScan
