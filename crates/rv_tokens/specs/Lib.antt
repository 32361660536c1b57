pub mod Faults
pub mod Literals
pub mod Parts
pub mod Places
pub mod Support
pub mod Tokens
