pub mod Tallies
pub mod Traces
pub mod Verdicts
