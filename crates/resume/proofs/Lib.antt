pub mod Saving
pub mod Resuming
pub mod Copied
pub mod Computed
