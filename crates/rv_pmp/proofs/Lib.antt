pub mod ActiveEntries
pub mod Decision
pub mod Registers
pub mod TrailingOnes
pub mod Widest
pub mod Writes
