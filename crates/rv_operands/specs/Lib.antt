pub mod Operands
pub mod Support
