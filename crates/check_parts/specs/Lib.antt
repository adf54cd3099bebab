-- The method of the reading of lists.
pub mod Method
