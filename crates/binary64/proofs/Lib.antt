pub mod Constants
pub mod Commutes
pub mod Nan
