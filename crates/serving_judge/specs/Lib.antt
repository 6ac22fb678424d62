pub mod Words
pub mod Tests
pub mod Dues
pub mod Judging
