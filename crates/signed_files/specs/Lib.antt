pub mod MessageFiles
pub mod SignedText
pub mod Verdicts
