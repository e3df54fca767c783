pub mod Rings
pub mod Routes
pub mod Presented
pub mod Signers
pub mod KeyRotations
pub mod DeskCalls
