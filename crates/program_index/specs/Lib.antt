-- What the index of an image holds.
pub mod Indexed
pub mod Images
