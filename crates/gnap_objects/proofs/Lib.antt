pub mod AskedSizes
pub mod Given
pub mod OneMore
pub mod ReadParts
