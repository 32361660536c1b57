-- Definitions that aren't to audit: each file says why.
pub mod Codes
pub mod Kinds
pub mod Letters
pub mod Loads
pub mod Meaning
pub mod Mnemonics
pub mod TextParts
