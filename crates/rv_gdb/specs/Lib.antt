pub mod Laws
pub mod Moves
pub mod Serves
pub mod Talk
pub mod Target
