-- Bytes and machine stay together: at the beginning, with each call, and so along every list of calls.
pub mod Arguments
pub mod Lines
pub mod Invariant
pub mod Edit
pub mod Make
pub mod Apply
pub mod Run
pub mod Asked
