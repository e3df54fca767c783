pub mod Halving
pub mod Sides
