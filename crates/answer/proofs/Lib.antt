pub mod Answers
pub mod Steps
pub mod Each
pub mod Told
