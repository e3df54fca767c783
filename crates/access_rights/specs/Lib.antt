pub use Rattle.gnap_model.specs.Rights
pub mod Inclusion
pub mod Masks
pub mod Fits
pub mod Reading
pub mod Dimensions
pub mod Printing
