pub mod Again
pub mod LengthSteps
pub mod Items
