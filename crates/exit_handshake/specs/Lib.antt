pub mod Desks
pub mod Close
pub mod Exit
pub mod Laws
