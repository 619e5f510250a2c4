-- The two calls.
pub mod Calls
pub mod Says
pub mod Instances
