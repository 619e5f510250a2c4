pub mod Forth
