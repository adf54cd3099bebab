-- The method of going range by range.
pub mod Method
