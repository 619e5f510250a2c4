pub mod Children
pub mod Ways
