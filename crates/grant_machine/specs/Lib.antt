pub mod Gnap
pub mod Laws
