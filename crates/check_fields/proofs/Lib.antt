-- The laws that the reading of fields is proved by; the crates above use them too.
pub mod Steps
pub mod Among
pub mod Repeat
pub mod Run
pub mod Known
pub mod Element
pub mod Vector
