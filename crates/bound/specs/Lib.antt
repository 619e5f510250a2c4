-- What step, turn and supply tell of the variables bound.
pub mod Calls
