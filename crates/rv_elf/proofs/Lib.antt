pub mod Described
pub mod Found
pub mod Leb
pub mod Named
pub mod Places
pub mod Reading
pub mod Rows
pub mod Sizes
