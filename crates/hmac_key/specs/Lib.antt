pub mod Hmac
pub mod Keyring
