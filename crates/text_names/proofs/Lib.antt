pub mod Walk
pub mod Rest
pub mod Looked
pub mod Added
