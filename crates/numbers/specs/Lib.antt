pub mod Arithmetic
pub mod Bits
pub mod FirstMet
pub mod Little
pub mod Rule
