pub mod Says
pub mod Ways
