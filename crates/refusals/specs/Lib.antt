-- Refusals a second time, as facts: what is right in an image, which record is refused first, and the table rules.
pub mod Right
pub mod Refused
pub mod Ruled
pub mod Instances
pub mod CallInstances
