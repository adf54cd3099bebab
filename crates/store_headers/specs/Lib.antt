-- The headers of stores and batches.
pub mod MethodHeaders
