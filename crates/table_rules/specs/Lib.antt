-- What the contracts of the tests name beside the definitions.
pub mod Parts
