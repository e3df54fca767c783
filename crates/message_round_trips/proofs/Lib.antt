pub mod Headers
pub mod Trimming
pub mod SignatureTexts
pub mod Signing
pub mod RequestsAgain
pub mod FilesAgain
