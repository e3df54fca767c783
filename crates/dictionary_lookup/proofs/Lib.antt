pub mod Behind
pub mod Members
pub mod SkippedEntries
pub mod StringLists
pub mod SoleMembers
