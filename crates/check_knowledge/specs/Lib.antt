-- The check's answer as one number.
pub mod Method
