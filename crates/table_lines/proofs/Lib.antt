pub mod Walking
pub mod Texts
pub mod Starts
pub mod Whole
