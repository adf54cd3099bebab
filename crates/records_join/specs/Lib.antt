-- The method of the code that joins two tables of records.
pub mod MethodJoin
pub mod MethodWritten
