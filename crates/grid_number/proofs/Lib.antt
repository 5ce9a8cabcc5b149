pub mod Units
pub mod Word
pub mod Wholes
pub mod Rounded
pub mod Small
