pub mod Pairs
pub mod Deriving
