pub mod Addresses
pub mod Commands
pub mod Named
pub mod Support
