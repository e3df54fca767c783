mod Growing
mod Passing
mod Summing
mod TwoEntries
