pub mod Words
pub mod Standing
pub mod Told
pub mod Replays
pub mod SameFetch
pub mod LastSought
pub mod Repeating
