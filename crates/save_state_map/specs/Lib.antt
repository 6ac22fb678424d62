pub mod Fields
pub mod Images
pub mod Padding
pub mod Texts
