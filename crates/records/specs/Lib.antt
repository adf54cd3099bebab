-- The method of the code that reads records.
pub mod Method
