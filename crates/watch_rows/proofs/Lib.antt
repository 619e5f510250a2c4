-- The laws of the watch.
pub mod Watched
pub mod Turns
