pub mod Turn
pub mod Spanned
