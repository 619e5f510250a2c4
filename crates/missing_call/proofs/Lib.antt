mod Ordered
mod Folded
mod One
mod Walked
mod Ways
pub mod Order
pub mod Minimum
