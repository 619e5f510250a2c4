-- What a writer of the runner's text promises.
pub mod Fronting
pub mod Writing
