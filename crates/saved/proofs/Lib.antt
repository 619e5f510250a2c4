pub mod Bytes
pub mod Written
pub mod Following
pub mod Faults
pub mod Passing
pub mod Formed
pub mod Back
