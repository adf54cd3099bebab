-- For code: opening a store or a batch, and what is then left of a call, as tests that are each made once.
pub mod Records
pub mod Store
pub mod Batch
pub mod Calls
