-- Definitions that aren't to audit: each file says why.
pub mod Meanings
pub mod Shown
