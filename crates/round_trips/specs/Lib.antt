pub mod GrantReplies
pub mod Introspections
