pub mod Files
pub mod Looks
pub mod Texts
