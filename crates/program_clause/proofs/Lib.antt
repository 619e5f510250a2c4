pub mod Turns
pub mod Modes
pub mod Fields
