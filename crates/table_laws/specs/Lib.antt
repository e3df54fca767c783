pub mod AddableNotes
pub mod Laws
