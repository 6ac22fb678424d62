pub mod Spelling
pub mod Refusals
pub mod Contents
pub mod Texts
