pub mod Bounds
pub mod Mill
pub mod Laws
