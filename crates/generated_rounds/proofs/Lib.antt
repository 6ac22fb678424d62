pub mod RoundLemmas
