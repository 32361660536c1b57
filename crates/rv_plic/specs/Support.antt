-- Definitions that aren't to audit: each file says why.
pub mod AboveThreshold
pub mod Best
pub mod Changes
pub mod Codes
pub mod GatewayState
pub mod Registers
pub mod Words
