pub mod LoadCalls
pub mod Tallies
pub mod Words
pub mod Loads
pub mod Sharing
