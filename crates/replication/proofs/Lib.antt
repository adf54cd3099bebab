-- The laws of records, stores, batches, calls, the plain history machine and whole lists of calls.
pub mod Bytes
pub mod Tables
pub mod Broken
pub mod Opening
pub mod Machine
pub mod Agree
pub mod Contents
pub mod Refusals
pub mod Queries
pub mod Demand1
pub mod Demand3
pub mod Runner
pub mod RunnerSettled
pub mod Consumed
