-- The laws that planning is proved by.
pub mod Fronts
pub mod Rows
pub mod Columns
pub mod Counts
pub mod Whole
