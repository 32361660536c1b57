pub mod Support
pub mod Text
pub mod Timed
