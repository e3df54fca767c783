pub mod Adding
pub mod Amounts
pub mod Standing
pub mod Refusals
pub mod Ones
pub mod Bytewise
