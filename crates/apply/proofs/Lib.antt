-- The laws of apply.
pub mod Applying
pub mod Merged
