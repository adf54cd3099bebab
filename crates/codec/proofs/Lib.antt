-- The laws of the codec.
pub mod Difference
pub mod Numbers
pub mod Order
pub mod Reading
pub mod Replies
pub mod Total
pub mod Words
pub mod Writing
pub mod Calls
pub mod Ids
pub mod Ended
pub mod Written
