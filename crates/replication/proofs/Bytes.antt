-- Records, stores and batches as bytes: what is written is read back, how long it is, and where each field stands.
pub mod Part
pub mod Record
pub mod Store
pub mod Batch
pub mod Sizes
pub mod Places
