-- Definitions that aren't to audit: each file says why.
pub mod Kept
pub mod Nearer
pub mod Recorded
pub mod Steps
