pub mod Trace
pub mod Kinds
pub mod Instances
pub mod Formed
