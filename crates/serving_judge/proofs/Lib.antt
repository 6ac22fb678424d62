pub mod Telling
pub mod Labels
pub mod Operating
pub mod Placing
pub mod Fitting
pub mod Waiting
pub mod Saying
