pub mod Held
pub mod Moded
