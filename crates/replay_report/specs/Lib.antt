pub mod Plan
pub mod ReplayInside
pub mod Replays
pub mod Report
