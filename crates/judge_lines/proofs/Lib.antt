pub mod Judging
pub mod Moded
