-- What the contracts of decisions name beside the definitions.
pub mod Decision
