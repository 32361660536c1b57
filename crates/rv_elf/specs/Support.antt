-- Definitions that aren't to audit: each file says why.
pub mod FrameBytes
pub mod LineBytes
pub mod Sections
pub mod Tables
pub mod Written
