pub mod Points
pub mod Same
