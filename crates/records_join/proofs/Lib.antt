-- The laws of joining two tables of records.
pub mod Addresses
pub mod JoinedTables
pub mod Copies
pub mod Runs
pub mod Steps
pub mod Written
