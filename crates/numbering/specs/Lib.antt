pub mod Interface
pub mod Refinement
pub mod Rings
