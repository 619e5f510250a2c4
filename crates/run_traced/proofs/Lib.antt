-- The laws of the run that records.
pub mod Records
pub mod Noting
pub mod Once
