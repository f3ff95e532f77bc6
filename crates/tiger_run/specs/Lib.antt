pub mod Ending
pub mod Answers
