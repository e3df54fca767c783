pub mod TokenLemmas
pub mod LiveRows
