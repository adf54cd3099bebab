-- The method of the call make.
pub mod Method
