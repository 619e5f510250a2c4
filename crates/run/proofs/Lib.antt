-- The laws of the turn and the run.
pub mod Runs
pub mod Turning
pub mod Once
