pub mod Area
pub mod Causes
pub mod Handlers
pub mod Head
pub mod Operations
pub mod Texts
pub mod Walk
pub mod Waves
