pub mod Issuing
pub mod UserCodes
pub mod WholeDecisions
