pub mod Plans
pub mod Made
