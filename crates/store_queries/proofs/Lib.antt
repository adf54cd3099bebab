-- The laws of the calls that write nothing.
pub mod Parts
pub mod Winning
pub mod Handed
pub mod Counting
