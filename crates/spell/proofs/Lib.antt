mod Language
pub mod Exact
mod Same
mod Alike
mod Ways
mod Tested
mod Sim
mod Computed
