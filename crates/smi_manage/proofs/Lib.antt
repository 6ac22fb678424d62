pub mod AnswerLemmas
pub mod DueLemmas
pub mod Examples
pub mod LiveLemmas
pub mod WalkLemmas
