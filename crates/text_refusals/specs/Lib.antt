pub mod Unread
pub mod Unwritten
