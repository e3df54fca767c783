pub mod Accepted
pub mod Signing
pub mod Rotation
