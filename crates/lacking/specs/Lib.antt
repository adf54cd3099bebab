-- The method of the rows.
pub mod Method
