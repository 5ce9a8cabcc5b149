pub mod Middles
pub mod Mesh
pub mod Report
