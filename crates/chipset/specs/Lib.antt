pub mod Chipsets
pub mod Bounds
