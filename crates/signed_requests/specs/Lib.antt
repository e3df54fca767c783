pub mod Forms
pub mod Nonces
pub mod Requests
