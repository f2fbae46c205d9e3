pub mod Error
pub mod Small
pub mod Digest
pub mod Section
pub mod Answers
pub mod Cut
pub mod Picked
pub mod Indexing
