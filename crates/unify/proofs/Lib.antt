-- Laws that the functions cite, and bounds for their callers.
pub mod Laws
pub mod Bounds
