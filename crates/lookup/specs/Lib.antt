-- Lookup's own method.
pub mod Opened
pub mod Method
