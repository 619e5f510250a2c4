-- What stands in the row.
pub mod Row
