mod ComponentParts
pub mod Fields
pub mod Lines
mod FilledTemplates
pub mod MostComponents
pub mod WithTag
pub mod CutLists
pub mod LoneSteps
pub mod Appended
pub mod SignedFields
pub mod SignedBase
pub mod SigningSteps
pub mod CheckSteps
pub mod VerifiedParts
pub mod Admitted
pub mod ListShapes
