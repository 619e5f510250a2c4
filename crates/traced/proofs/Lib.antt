-- The laws of step and supply that record.
pub mod Records
pub mod Noting
pub mod Once
