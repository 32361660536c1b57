pub mod Hex
pub mod Support
