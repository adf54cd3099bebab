-- What a knowledge means: known ticks, tables, normal form, the operations on knowledge, and the calls on bytes.
pub mod Meaning
pub mod Table
pub mod Written
pub mod Operations
pub mod Contain
pub mod Lead
pub mod Cover
pub mod Calls
pub mod Answers
pub mod Demand2
pub mod Results
pub mod Compare
pub mod Demand1
pub mod MethodLookup
pub mod MethodRows
