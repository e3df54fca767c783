pub mod Laws
pub mod DirectErrors
pub mod LineErrors
