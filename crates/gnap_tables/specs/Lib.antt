pub mod Rows
pub mod Tables
pub mod RowSearches
pub mod ActionsByRows
pub mod StandsFor
