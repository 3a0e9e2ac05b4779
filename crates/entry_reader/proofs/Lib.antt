pub mod Answers
pub mod Positions
