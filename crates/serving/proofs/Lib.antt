pub mod LogLemmas
pub mod ConnectionLemmas
pub mod MessageTurnLemmas
pub mod WorkerLemmas
mod Starting
mod Ending
pub mod EntryCounts
pub mod UsedUp
pub mod ServiceLemmas
pub mod WholeLemmas
