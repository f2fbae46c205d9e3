pub mod Short
pub mod Costs
pub mod Entries
pub mod Sections
pub mod Laws
