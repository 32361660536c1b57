pub mod Json
pub mod Support
