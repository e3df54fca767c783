pub mod NewKeys
pub mod MarkSizes
pub mod WhoSigned
pub mod Authorizations
pub mod Askable
