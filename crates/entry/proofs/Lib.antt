-- The laws of a call's entry.
pub mod Held
pub mod Entering
