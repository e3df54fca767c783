pub mod WholeSets
mod SetsServed
