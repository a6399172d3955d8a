-- The definitions that the contracts cite.
pub mod Answers
pub mod Laws
pub mod Places
pub mod Tables
pub mod Certificates
pub mod ForProofs
