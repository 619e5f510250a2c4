-- What the contracts of the scan name beside the definitions.
pub mod Parts
