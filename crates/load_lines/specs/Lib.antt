pub mod LoadLines
