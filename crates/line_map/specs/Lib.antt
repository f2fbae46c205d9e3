pub mod Answers
pub mod Choice
pub mod Lookups
pub mod Laws
pub mod Map
