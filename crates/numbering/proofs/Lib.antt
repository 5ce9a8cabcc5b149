pub mod Cells
pub mod Interface
pub mod Numbered
pub mod Places
pub mod Rings
pub mod Same
pub mod Steps
pub mod Twists
