pub mod Found
pub mod Masking
