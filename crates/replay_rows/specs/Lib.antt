pub mod Platforms
pub mod Schedules
pub mod Replays
