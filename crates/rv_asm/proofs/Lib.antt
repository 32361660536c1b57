pub mod Sums
pub mod Rows
pub mod Counting
pub mod Reading
pub mod Lined
pub mod Examining
pub mod Cuts
