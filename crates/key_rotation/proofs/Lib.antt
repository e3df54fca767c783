pub mod SecondBase
