pub mod Entry
pub mod Mode
pub mod Pmp
pub mod Support
pub mod Widest
