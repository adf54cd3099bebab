-- The laws of lookup: what its loops compute, and that this is the known tick where the bytes are accepted.
pub mod Loops
pub mod Leaf
pub mod Calls
pub mod Span
