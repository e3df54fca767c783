pub mod SignedFiles
pub mod SignedRequests
