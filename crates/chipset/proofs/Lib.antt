pub mod WaveLemmas
pub mod StepLemmas
