pub mod Locate
