pub mod Ids
pub mod Taken
pub mod Fold
pub mod Memory
pub mod Tokens
pub mod Doors
pub mod Hashes
pub mod References
