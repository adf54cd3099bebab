-- The laws that callers of the leaves use.
pub mod Part
pub mod Compare
pub mod Writing
