pub mod Reading
pub mod Bodies
pub mod Members
pub mod Objects
pub mod Texts
pub mod TextSets
pub mod Sizes
pub mod Drafts
