pub mod Serials
pub mod Listed
pub mod CodeNumbers
pub mod OpenCodes
pub mod Interactions
pub mod Grants
