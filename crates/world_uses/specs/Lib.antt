pub mod Uses
pub mod ConfigFiles
