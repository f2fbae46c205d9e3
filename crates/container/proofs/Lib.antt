pub mod Digests
pub mod Examples
pub mod Parts
pub mod PlaceTold
pub mod Loading
