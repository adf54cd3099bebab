-- The laws that cover is proved by.
pub mod Steps
pub mod Covering
pub mod Calls
