pub mod Lookups
pub mod Filled
pub mod Laws
