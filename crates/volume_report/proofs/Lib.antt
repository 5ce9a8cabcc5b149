pub mod Steps
pub mod Cells
pub mod Words
pub mod Sums
pub mod Meshes
pub mod Promises
