pub mod Texts
pub mod Digests
