pub mod Simulations
pub mod Places
pub mod Writes
pub mod Resumes
