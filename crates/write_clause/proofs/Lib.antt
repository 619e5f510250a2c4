pub mod Claused
