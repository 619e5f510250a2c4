-- What the contracts of the reads name beside the definitions.
pub mod Parts
