-- Statements over replication on which no crate of code stands.
pub mod Refusals
pub mod Enough
pub mod Round
pub mod Queries
