pub mod DirectReplies
pub mod EdgeFace
pub mod EdgeSessions
