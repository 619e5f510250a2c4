-- The laws of the calls.
pub mod Looking
pub mod Beginning
pub mod Giving
pub mod Once
