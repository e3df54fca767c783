pub mod Draws
pub mod Words
