pub mod Places
pub mod Entries
pub mod Giving
pub mod Values
