pub mod DistinctLemmas
