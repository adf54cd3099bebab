-- The laws of the check of a store and of a batch.
pub mod Opened
pub mod Judged
pub mod Store
pub mod Carried
pub mod Ids
pub mod Keys
pub mod Places
pub mod Asked
pub mod Batch
