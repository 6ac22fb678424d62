pub mod Registers
pub mod Entering
