-- Programs and their bytes, each read from the other.
pub mod Stands
pub mod Decoded
pub mod Encoded
pub mod Walked
pub mod Counted
pub mod Fitting
pub mod Parsed
pub mod Short
pub mod Roomy
pub mod Refusing
