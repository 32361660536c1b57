-- Definitions that aren't to audit: each file says why.
pub mod ImageFit
pub mod MoveParts
pub mod RunWhile
pub mod State
