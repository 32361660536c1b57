pub mod Lists
pub mod Near
