pub mod Listing
pub mod Joining
