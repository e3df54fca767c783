pub mod Blocks
pub mod Differences
pub mod Mapped
pub mod Rings
