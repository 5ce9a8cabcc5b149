pub mod Edges
pub mod Image
pub mod Middles
pub mod Newton
pub mod Shape
