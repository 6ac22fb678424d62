pub mod Course
pub mod Conditions
pub mod Procedures
pub mod Sessions
pub mod Told
pub mod NextRow
pub mod Answering
pub mod Needs
