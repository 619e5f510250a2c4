-- What step and supply record.
pub mod Traced
