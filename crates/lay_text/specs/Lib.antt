pub mod Laying
pub mod Wrote
