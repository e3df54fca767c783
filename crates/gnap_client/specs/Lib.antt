pub mod Configs
pub mod Received
pub mod Calls
pub mod Taking
pub mod Sending
pub mod Laws
