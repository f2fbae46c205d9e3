pub mod Fault
pub mod Numbers
pub mod Reader
pub mod Answer
pub mod Places
pub mod Tables
