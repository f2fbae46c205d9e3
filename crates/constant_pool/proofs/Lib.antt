pub mod Numbers
pub mod Entries
pub mod Pool
pub mod Walks
