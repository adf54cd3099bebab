-- The method of the check of a store and of a batch, and of its pass over the records.
pub mod Method
pub mod MethodEach
