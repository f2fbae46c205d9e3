pub mod Writing
pub mod Fitting
pub mod Laws
