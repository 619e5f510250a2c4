-- What was parsed is printed, and parsed again.
pub mod Follows
pub mod Followed
pub mod Entered
pub mod Ordered
pub mod Named
pub mod Forth
