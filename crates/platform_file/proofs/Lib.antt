pub mod Distinct
pub mod Documents
pub mod Fits
pub mod Growing
pub mod Tables
