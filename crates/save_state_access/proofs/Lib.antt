pub mod LowBytes
pub mod Numbers
pub mod RoundTrip
