-- Definitions that aren't to audit: each file says why.
pub mod Rows
pub mod Short
