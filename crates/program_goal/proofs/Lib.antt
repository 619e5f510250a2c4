pub mod Rows
pub mod Outs
pub mod Homes
pub mod Goals
pub mod Tags
