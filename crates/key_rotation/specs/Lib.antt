pub mod SignedRotation
