pub mod Values
pub mod Pools
pub mod Servings
pub mod Steps
pub mod Machines
pub mod Worlds
pub mod Platforms
pub mod Events
