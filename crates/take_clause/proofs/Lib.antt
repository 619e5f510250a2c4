pub mod Lines
pub mod Recorded
