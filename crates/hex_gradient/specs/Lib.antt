pub mod Gradient
