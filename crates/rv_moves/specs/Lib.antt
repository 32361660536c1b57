pub mod Back
pub mod Runs
pub mod Support
pub mod Watches
