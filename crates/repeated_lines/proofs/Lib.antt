pub mod Parting
pub mod Standing
