pub mod Determinant
