-- The laws that the reading of lists is proved by.
pub mod Ids
pub mod Marked
pub mod Bound
pub mod Lists
