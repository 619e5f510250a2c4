pub mod Called
pub mod Least
pub mod Sees
