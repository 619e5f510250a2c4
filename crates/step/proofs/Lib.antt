-- The laws of the step.
pub mod Deciding
pub mod Making
pub mod Stepping
pub mod Once
