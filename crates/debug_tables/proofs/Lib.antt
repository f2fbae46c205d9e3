pub mod Payloads
pub mod Rows
pub mod Standing
pub mod Counts
pub mod BadPlaces
pub mod LaterRows
pub mod Few
