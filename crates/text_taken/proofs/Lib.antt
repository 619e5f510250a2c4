pub mod Taken
pub mod Low
