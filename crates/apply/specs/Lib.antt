-- The method of apply.
pub mod Method
