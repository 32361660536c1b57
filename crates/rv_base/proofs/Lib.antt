pub mod NumberReading
pub mod Hexadecimal
pub mod LineSplitting
pub mod TableRows
pub mod WordSplitting
