pub mod TakesGoal
pub mod Turns
