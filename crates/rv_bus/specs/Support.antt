-- Definitions that aren't to audit: each file says why.
pub mod AtLocation
pub mod Locations
pub mod Within
