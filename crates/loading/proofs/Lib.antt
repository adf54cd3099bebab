-- The laws of filled tables.
pub mod Sampling
pub mod Closing
