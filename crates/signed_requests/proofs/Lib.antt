pub mod NeverSigned
pub mod LineNonces
