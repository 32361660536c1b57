pub mod Advancing
pub mod Ends
pub mod Looking
pub mod Stops
