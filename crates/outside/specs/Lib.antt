pub mod Outside
pub mod Worlds
pub mod Gears
pub mod Links
pub mod Openings
