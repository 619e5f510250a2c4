-- A parse is refused exactly where there is a reason.
pub mod Declared
pub mod Tested
pub mod Unread
pub mod Entered
pub mod Unwritten
