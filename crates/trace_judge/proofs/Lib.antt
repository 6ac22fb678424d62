pub mod Lines
pub mod Readings
pub mod Sofar
pub mod Tracing
pub mod Walking
