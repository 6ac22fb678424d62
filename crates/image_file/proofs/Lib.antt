pub mod Headers
pub mod Sequence
pub mod Files
