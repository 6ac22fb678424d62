pub mod AreaLemmas
pub mod Registers
pub mod Refusals
pub mod Saving
pub mod Every
