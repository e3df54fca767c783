pub mod Methods
pub mod Turning
pub mod Accounts
pub mod OneGear
pub mod CachedTurns
