-- The laws of these words.
pub mod Laws
