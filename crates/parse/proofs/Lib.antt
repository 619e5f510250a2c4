pub mod Called
mod Stops
