mod Forms
mod OneForm
mod OneValue
pub mod Parsed
pub mod Pieces
pub mod Ranges
pub mod Sets
mod WordRows
