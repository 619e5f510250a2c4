-- What the contracts of unifying name beside the definitions.
pub mod Pending
