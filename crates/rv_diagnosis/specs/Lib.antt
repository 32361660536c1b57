pub mod Diagnosed
pub mod Support
