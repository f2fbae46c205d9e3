pub mod Table
pub mod Longest
pub mod Passing
pub mod Ascii
