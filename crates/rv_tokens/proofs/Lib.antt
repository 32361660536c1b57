pub mod Escapes
pub mod Longest
pub mod StringEnds
pub mod Front
pub mod Cutting
pub mod PartsLemmas
pub mod Signs
