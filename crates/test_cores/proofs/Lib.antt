pub mod Growing
pub mod Calls
