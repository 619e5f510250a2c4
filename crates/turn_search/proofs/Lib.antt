pub mod Halves
pub mod Saying
pub mod Passing
pub mod Order
pub mod Laws
pub mod Room
