pub mod Circles
pub mod Writes
