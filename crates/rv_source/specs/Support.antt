-- Definitions that aren't to audit: each file says why.
pub mod Forms
pub mod Partial
pub mod Sums
