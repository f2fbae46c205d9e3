pub mod Sizes
pub mod Word
pub mod Compression
pub mod Chain
pub mod Rows
pub mod Laws
pub mod Vectors
