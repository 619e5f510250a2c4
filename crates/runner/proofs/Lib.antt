-- The laws of the runner.
pub mod Playing
pub mod Telling
