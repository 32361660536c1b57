pub mod Blocks
pub mod Put
pub mod Value
pub mod Zeros
