pub mod Caching
pub mod Seen
pub mod Steps
pub mod Laws
