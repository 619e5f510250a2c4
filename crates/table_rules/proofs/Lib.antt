-- Laws of the tests over lent bytes: one for each way through a function.
pub mod Places
pub mod Rules
pub mod Whole
