pub mod Cell
pub mod Places
pub mod Rules
pub mod Search
pub mod Told
pub mod Twists
