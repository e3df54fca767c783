pub mod Positionals
pub mod Numbers
pub mod Commands
pub mod Telling
pub mod Hints
