-- What the watch's contract comes to.
pub mod Answers
