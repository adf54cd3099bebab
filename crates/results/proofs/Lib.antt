-- The laws of the results.
pub mod Copied
pub mod Opened
pub mod TableWords
