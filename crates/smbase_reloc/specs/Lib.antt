pub mod Areas
pub mod Layouts
pub mod Relocation
pub mod Pools
pub mod Words
