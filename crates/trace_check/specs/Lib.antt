pub mod Judged
pub mod Verdicts
pub mod Afterwards
pub mod Kept
pub mod Stands
