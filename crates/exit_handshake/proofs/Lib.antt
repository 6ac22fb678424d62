pub mod DeskLemmas
pub mod NextLemmas
pub mod CloseLemmas
pub mod ExitLemmas
