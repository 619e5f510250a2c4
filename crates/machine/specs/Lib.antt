-- What the calls promise.
pub mod Starting
pub mod Supplying
