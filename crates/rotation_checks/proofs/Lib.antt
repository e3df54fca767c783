mod RotationLines
mod Told
pub mod Members
