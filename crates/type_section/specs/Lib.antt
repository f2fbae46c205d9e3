pub mod Lookups
pub mod Answers
pub mod Laws
