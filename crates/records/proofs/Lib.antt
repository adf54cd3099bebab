-- The laws of the code that reads records.
pub mod Fields
pub mod Finding
pub mod Shape
pub mod Lengths
