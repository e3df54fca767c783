pub mod Inputs
pub mod LineRuns
pub mod LineStops
pub mod LineTexts
pub mod Printing
pub mod Reading
pub mod ConfigTexts
