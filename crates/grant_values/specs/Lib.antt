pub mod TokenRequests
pub mod Interactions
pub mod Grants
pub mod Laws
