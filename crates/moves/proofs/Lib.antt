pub mod Legal
pub mod Ways
