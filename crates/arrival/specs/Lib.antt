pub mod Entry
pub mod Gather
pub mod Report
pub mod Rounds
pub mod Laws
pub mod Views
