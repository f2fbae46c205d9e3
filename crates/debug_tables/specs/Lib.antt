pub mod SixTags
pub mod Starts
pub mod Counts
pub mod Answers
pub mod Rows
pub mod LaterRows
pub mod Laws
