pub mod Following
pub mod Tallies
