pub mod SetRequests
pub mod SetReplies
pub mod SetFace
pub mod SetSessions
pub mod SetServices
