-- Definitions that aren't to audit: each file says why.
pub mod Phases
pub mod Statements
pub mod Steps
