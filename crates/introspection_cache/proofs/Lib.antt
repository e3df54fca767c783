pub mod SeenKept
pub mod Keeping
pub mod Putting
pub mod Chains
