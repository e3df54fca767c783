pub mod Services
pub mod DerivedServices
