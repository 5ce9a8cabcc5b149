pub mod Report
pub mod Told
pub mod Sized
