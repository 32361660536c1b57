pub mod Labelled
pub mod Most
pub mod Rising
pub mod Texts
