pub mod Commands
pub mod Frames
pub mod Printer
pub mod Memory
pub mod States
pub mod Support
