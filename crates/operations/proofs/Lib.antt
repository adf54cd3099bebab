-- The laws of the calls.
pub mod Replies
