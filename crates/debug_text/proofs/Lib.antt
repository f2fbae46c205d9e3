pub mod Texts
pub mod Places
