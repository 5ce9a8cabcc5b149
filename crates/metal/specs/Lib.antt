pub mod Metal
