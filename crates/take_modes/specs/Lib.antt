pub mod Lent
pub mod TakesModes
