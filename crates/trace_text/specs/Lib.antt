pub mod Last
pub mod Readings
pub mod Spelling
