-- The laws of copies.
pub mod Whole
pub mod TickSet
pub mod Overwritten
pub mod Loops
pub mod Raised
