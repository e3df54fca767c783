pub mod AfterDashes
pub mod HintTexts
pub mod Numerals
pub mod Refusals
pub mod ToldTexts
pub mod WordCounts
