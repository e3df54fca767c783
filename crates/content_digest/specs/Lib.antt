pub mod Digest
pub mod Judged
