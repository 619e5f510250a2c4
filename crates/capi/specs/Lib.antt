-- What a C program is promised.
pub mod Tells
