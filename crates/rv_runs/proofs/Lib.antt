pub mod Later
pub mod Parts
pub mod Passing
pub mod Plans
pub mod Watching
