pub mod Courses
pub mod Drawn
pub mod UserCodes
