pub mod Examples
pub mod KeptLemmas
pub mod LawLemmas
