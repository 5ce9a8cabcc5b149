pub mod Edges
pub mod Sums
pub mod Steps
pub mod Refusals
pub mod Shape
