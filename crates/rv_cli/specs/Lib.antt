pub mod Conversions
pub mod Faults
pub mod Output
pub mod Run
pub mod Support
