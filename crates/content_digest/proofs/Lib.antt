pub mod Steps
pub mod Judging
pub mod DigestBytes
pub mod Ends
pub mod DigestLine
