mod CauseLemmas
mod DeskLemmas
mod KindLemmas
mod WantLemmas
pub mod StayLemmas
mod HandLemmas
mod ReturnLemmas
pub mod PlatformLemmas
