pub mod Telling
pub mod Notes
