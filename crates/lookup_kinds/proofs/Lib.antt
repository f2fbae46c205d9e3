pub mod ByKind
pub mod Laws
