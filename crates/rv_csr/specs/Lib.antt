pub mod Later
pub mod Registers
pub mod State
pub mod Support
pub mod Traps
