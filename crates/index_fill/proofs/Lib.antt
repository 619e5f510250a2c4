-- The laws of the filling.
pub mod Columns
pub mod Relations
pub mod Whole
