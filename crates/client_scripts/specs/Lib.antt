pub mod Deeds
pub mod Lines
pub mod Carrying
pub mod Starving
pub mod Turns
