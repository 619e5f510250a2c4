-- The laws of the marker beside the counts.
pub mod Marked
pub mod Core
