pub mod Access
pub mod Room
pub mod State
pub mod Support
pub mod Table
pub mod Ticks
