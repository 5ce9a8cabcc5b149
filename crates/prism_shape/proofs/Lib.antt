pub mod Shape
pub mod Slopes
