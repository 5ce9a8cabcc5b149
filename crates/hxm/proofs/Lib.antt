pub mod Format
pub mod Ladder
pub mod Loaded
pub mod Long
