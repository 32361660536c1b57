-- Definitions that aren't to audit: each file says why.
pub mod ActiveEntries
pub mod PermissionCache
pub mod Registers
pub mod Span
pub mod WidestSpan
