-- What the turn and the run promise.
pub mod Running
