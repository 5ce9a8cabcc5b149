pub mod Corners
pub mod Determinants
pub mod Laws
pub mod Sizes
