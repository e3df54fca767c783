pub mod Routing
pub mod Introspecting
pub mod Fits
pub mod RsSetups
pub mod Guarding
pub mod Laws
