pub mod Elections
pub mod Announcements
pub mod Members
pub mod Enclosures
pub mod GivenJobs
pub mod Starts
pub mod Causes
