mod Opened
mod Computed
pub mod Joined
pub mod Here
pub mod Fields
