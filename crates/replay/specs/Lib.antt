pub mod Replay
pub mod Instances
