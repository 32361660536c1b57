pub mod Memory
pub mod Readers
pub mod Support
pub mod Texts
pub mod Within
