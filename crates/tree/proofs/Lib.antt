pub mod Family
pub mod Marking
pub mod Passing
