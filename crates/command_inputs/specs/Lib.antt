pub mod Lines
pub mod Ends
pub mod Reading
pub mod Refills
pub mod Inputs
pub mod LineRuns
pub mod Printing
pub mod Configs
