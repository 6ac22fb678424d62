pub mod ImageKinds
pub mod Changing
pub mod FirstMembers
pub mod Processors
