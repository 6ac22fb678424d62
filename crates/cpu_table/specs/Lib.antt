pub mod Causes
pub mod Data
pub mod Distinct
pub mod Layout
pub mod Ranges
pub mod Table
pub mod Texts
pub mod Waves
