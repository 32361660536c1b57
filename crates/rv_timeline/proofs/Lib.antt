pub mod Inputs
pub mod Whole
pub mod Inserted
pub mod Texts
pub mod StepSizes
