pub mod Bodies
pub mod Items
pub mod Loops
pub mod Parts
pub mod Whole
pub mod Lengths
pub mod Fields
pub mod Depths
