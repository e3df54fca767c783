pub mod LineTexts
pub mod LineTurns
