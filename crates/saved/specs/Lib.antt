-- The form of a saved run.
pub mod Form
pub mod Kinds
pub mod Reading
pub mod Restored
pub mod Formed
