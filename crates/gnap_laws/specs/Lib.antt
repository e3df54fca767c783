pub mod Types
pub mod Provenance
pub mod Refusals
pub mod BoundKeys
pub mod Laws
