-- Definitions that aren't to audit: each file says why.
pub mod Controller
pub mod Devices
pub mod Instructions
pub mod Registers
pub mod Runs
pub mod Traps
