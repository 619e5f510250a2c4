pub mod Tabled
pub mod Lined
pub mod Short
