pub mod Fields
pub mod HashLines
pub mod MessageAnswers
