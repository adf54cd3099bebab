-- The laws of what is written for a store or a batch.
pub mod Storing
pub mod Around
pub mod Closing
pub mod ClosingBatch
