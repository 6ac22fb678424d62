pub mod KnownActors
pub mod ActorLists
pub mod PartLemmas
pub mod DigitLemmas
mod Said
