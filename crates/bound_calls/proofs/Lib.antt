-- The laws of the step by number and of the turn that tell the variables bound.
pub mod Telling
