pub mod Decoding
pub mod Instructions
pub mod Machine
pub mod Running
pub mod Programs
pub mod Lists
