-- Definitions: the table of a CSV or TSV text.
pub mod Certified
pub mod Cutting
pub mod Judging
pub mod Numbers
pub mod Pictures
pub mod Requests
pub mod Rows
pub mod Shown
pub mod Spelling
pub mod Starts
pub mod Styles
pub mod Within
pub mod ForProofs
