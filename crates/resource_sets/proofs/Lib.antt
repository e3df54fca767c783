pub mod SameRights
pub mod References
pub mod SetPasts
pub mod Differing
pub mod RepliesFit
pub mod Places
mod Examples
