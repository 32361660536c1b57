pub mod Expressions
pub mod Fields
pub mod Operands
pub mod Reading
pub mod Support
pub mod Table
