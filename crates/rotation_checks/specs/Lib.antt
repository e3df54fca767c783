pub mod RotationBase
pub mod Faults
pub mod SecondSignature
pub mod Rotated
