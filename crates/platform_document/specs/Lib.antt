pub mod CommonKeys
pub mod Operands
pub mod Path
pub mod Reading
pub mod Words
