pub mod Ways
pub mod Tried
