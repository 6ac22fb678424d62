pub mod Energies
pub mod Peers
pub mod Places
pub mod Leads
pub mod Handlers
pub mod Chipset
pub mod Spending
pub mod Replays
