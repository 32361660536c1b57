pub mod Halt
pub mod Room
pub mod Serial
pub mod Support
pub mod Timer
