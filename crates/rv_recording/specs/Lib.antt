pub mod Breaks
pub mod Out
pub mod Recording
pub mod Refused
pub mod Support
pub mod Until
