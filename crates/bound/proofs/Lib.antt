-- The laws of the calls that tell the variables bound.
pub mod Rows
pub mod Telling
pub mod Once
