pub mod Terms
pub mod DerivingSetups
pub mod Answering
pub mod DerivedTurns
pub mod DerivedSessions
