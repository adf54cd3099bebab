-- The method of asking a knowledge for records.
pub mod Method
