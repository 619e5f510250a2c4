-- What the contracts of matching name beside the definitions.
pub mod Starts
