pub mod Kids
pub mod Table
