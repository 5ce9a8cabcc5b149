pub mod Refine
pub mod Search
