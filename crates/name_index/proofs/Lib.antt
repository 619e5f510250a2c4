pub mod Chains
mod Spelled
