-- What was written is read back.
pub mod Begin
pub mod Said
pub mod Rows
pub mod Items
pub mod Lines
pub mod Spelling
pub mod Firsts
pub mod Numbers
pub mod Named
pub mod Made
pub mod Again
