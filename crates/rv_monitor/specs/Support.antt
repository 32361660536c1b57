-- Definitions that aren't to audit: each file says why.
pub mod Answers
pub mod Filter
pub mod Growth
pub mod Labels
pub mod LentBreaks
pub mod Numbers
pub mod TimedCalls
pub mod Took
