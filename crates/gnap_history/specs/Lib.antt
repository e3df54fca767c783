pub mod Counts
pub mod Drawings
pub mod Holders
pub mod Interactions
pub mod Rounds
pub mod Terms
pub use Rattle.grant_machine.specs.Gnap
pub use Rattle.grant_machine.specs.Laws
