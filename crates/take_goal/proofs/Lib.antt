pub mod Ways
pub mod Going
