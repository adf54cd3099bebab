-- The laws that the check is proved by.
pub mod Answers
pub mod Packed
