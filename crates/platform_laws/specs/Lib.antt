pub mod Words
pub mod Values
pub mod Says
pub mod Fits
pub mod Platform
pub mod ValueFaults
pub mod Faults
