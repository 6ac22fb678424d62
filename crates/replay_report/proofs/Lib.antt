pub mod ReplayLemmas
pub mod ReportLemmas
