-- What a run records.
pub mod Traced
