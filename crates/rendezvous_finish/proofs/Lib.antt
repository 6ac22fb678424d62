pub mod Reached
pub mod ToEnd
