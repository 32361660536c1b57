pub mod Gateways
pub mod Plic
pub mod Sources
pub mod Support
pub mod Withdrawn
