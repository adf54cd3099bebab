-- The laws of the call make.
pub mod Learned
pub mod Batches
pub mod Steps
pub mod Short
