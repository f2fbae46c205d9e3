pub mod Answers
pub mod Sections
pub mod PlaceTold
pub mod Independence
pub mod Examples
