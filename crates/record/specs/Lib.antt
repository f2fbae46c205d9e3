pub mod Answers
pub mod Absence
pub mod Starts
