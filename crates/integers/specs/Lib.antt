pub mod Integers
pub mod Fractions
pub mod Sizes
pub mod Slopes
pub mod Sums
