pub mod Access
pub mod Groups
pub mod Steps
pub mod Texts
