pub mod CheckLemmas
pub mod EndLemmas
pub mod ImageLemmas
pub mod LoadLemmas
pub mod PlayLemmas
