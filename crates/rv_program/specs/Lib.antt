pub mod Faults
pub mod Program
pub mod Support
