-- The laws of words.
pub mod Laws
pub mod Moves
pub mod Fitting
pub mod Nights
