pub mod Entries
pub mod Sorting
pub mod Choosing
pub mod Laws
