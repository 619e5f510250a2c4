-- Laws that the functions cite, and laws for their callers.
pub mod Laws
pub mod Pairs
pub mod Told
