pub mod MessageAnswers
