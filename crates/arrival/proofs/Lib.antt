pub mod EntryLemmas
pub mod EntryBounds
pub mod GatherLemmas
pub mod GatherBounds
pub mod ReportLemmas
pub mod ReportBounds
pub mod SearchLemmas
