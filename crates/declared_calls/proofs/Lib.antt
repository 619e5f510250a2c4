mod Fitted
mod Passes
mod Turns
mod Gathered
mod Clearing
mod Classes
