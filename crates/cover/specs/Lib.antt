-- The method of cover.
pub mod Method
