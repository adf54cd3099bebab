-- The method of comparing.
pub mod Method
