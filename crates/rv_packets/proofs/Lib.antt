pub mod Framing
pub mod Joining
