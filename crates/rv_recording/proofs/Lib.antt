pub mod Stands
pub mod Running
pub mod Keeping
pub mod Counting
pub mod Taken
pub mod NextBreak
