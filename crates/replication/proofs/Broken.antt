-- 15 and 16, condition by condition: what a valid store and a valid batch are, written again from document 01's text.
pub mod Records
pub mod Store
pub mod Batch
pub mod Bytes
