-- The laws of going range by range.
pub mod Ranges
pub mod OneReplica
pub mod Outside
