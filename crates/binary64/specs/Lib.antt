pub mod Binary64
pub mod Exact
pub mod Constants
