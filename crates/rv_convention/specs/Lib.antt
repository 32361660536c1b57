pub mod Convention
pub mod Profile
pub mod Support
