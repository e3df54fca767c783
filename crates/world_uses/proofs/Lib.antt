pub mod AfterConfig
pub mod Linked
pub mod ServedGears
pub mod Uses
