pub mod Forms
pub mod Grammar
pub mod Stuck
pub mod Rows
pub mod Table
pub mod Cases
