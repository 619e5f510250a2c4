-- What a step promises.
pub mod Stepping
