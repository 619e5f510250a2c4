pub mod Source
pub mod Numbered
pub mod Encoded
pub mod Parsing
pub mod Printing
pub mod Cases
