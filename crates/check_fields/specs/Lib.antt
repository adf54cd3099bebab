-- The method of the check field by field.
pub mod Method
