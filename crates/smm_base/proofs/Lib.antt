pub mod KnownBytes
pub mod Names
