pub mod Tree
pub mod Hash
pub mod Stack
pub mod State
pub mod Whole
pub mod Laws
