pub mod Computed
pub mod GivingUp
pub mod Launching
pub mod Slow
