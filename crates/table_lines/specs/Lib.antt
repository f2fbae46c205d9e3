pub mod Walks
pub mod Tables
pub mod Whole
pub mod Laws
