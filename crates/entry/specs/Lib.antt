-- What a call's entry promises.
pub mod Entered
