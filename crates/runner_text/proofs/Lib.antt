-- The laws of text written from the back.
pub mod Laws
pub mod Lines
pub mod Once
