pub mod SetupIds
pub mod ReadMessages
pub mod Answers
