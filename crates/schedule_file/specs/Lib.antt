pub mod Says
pub mod Schedule
pub mod Steps
pub mod Texts
