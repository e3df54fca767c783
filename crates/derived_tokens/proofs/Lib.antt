pub mod Openings
pub mod Terms
pub mod Turning
pub mod DerivedEntries
