-- What an answer must keep to fit into a word.
pub mod Fits
pub mod Nights
