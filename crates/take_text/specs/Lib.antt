pub mod TakesText
pub mod Turned
