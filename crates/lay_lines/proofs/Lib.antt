pub mod Sizes
pub mod Lined
