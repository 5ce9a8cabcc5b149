pub mod Volume
pub mod Determinants
pub mod Laws
