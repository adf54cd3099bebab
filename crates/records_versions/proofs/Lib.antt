-- The laws of asking a knowledge for records.
pub mod Versions
pub mod Passing
