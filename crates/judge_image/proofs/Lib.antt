pub mod Fields
pub mod Named
pub mod Whole
pub mod Counts
pub mod Walked
