pub mod Asked
pub mod CallLines
pub mod Going
pub mod LineTurns
