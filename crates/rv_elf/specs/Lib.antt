pub mod Elf
pub mod Frames
pub mod LineNumbers
pub mod Object
pub mod Size
pub mod Support
pub mod Symbols
