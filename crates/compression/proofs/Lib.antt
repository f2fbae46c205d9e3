-- Laws that the proofs of several functions share.
pub mod Rotations
pub mod ByRows
pub mod Chain
pub mod Made
