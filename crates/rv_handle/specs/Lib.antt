pub mod Pages
pub mod Support
