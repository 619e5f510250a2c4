pub mod Small
pub mod Noting
pub mod Ways
