pub mod Units
pub mod Answers
pub mod Tests
pub mod Refusals
