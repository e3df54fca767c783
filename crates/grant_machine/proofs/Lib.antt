pub mod ActionsFit
pub mod FitsThrough
pub mod FoundFits
pub mod Weaker
