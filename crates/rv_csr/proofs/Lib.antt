pub mod Levels
pub mod Pending
pub mod Table
