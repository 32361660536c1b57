pub mod Taken
pub mod Origins
pub mod Repeats
pub mod Why
pub mod Support
