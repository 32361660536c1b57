pub mod Conversions
pub mod Obeyed
pub mod Refusals
pub mod OneRun
pub mod OneList
pub mod OneOpening
pub mod OneOutput
