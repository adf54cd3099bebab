-- The laws of filling.
pub mod Columns
pub mod Bounds
pub mod Cells
pub mod Filling
pub mod Scratch
pub mod Opening
pub mod Span
pub mod Stops
pub mod Tables
pub mod Parts
