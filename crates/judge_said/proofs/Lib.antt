pub mod Sized
pub mod Known
pub mod First
pub mod Clauses
pub mod Told
