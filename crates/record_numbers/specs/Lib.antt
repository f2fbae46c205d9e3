pub mod ToNumbers
pub mod FromNumbers
pub mod Answers
pub mod Laws
