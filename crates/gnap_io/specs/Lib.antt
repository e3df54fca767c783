pub mod FaultPlans
pub mod MemoryForms
pub mod Named
pub mod MemoryWorlds
