pub mod Wedge
