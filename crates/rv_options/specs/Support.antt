-- Definitions that aren't to audit: each file says why.
pub mod Arguments
pub mod Parse
