pub mod Lows
pub mod Fits
