-- The method of the code that selects the records of a table for a batch.
pub mod MethodSelect
