pub mod Circles
pub mod Ladder
