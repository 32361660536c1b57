-- Definitions that aren't to audit: each file says why.
pub mod Coherent
pub mod EffectParts
pub mod KeptRuns
pub mod Plain
pub mod Shortcuts
pub mod StepParts
