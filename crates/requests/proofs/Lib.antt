pub mod BadPlace
pub mod BadPlaceExamples
pub mod RowsInForceExamples
pub mod RowsInForce
pub mod Claims
