pub mod Ends
pub mod Guards
pub mod Marks
pub mod Plans
pub mod Support
pub mod Watches
