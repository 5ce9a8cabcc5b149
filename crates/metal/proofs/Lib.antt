pub mod Halves
pub mod Metal
