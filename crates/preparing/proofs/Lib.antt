-- The laws of preparing a table and of ending a call.
pub mod Judged
pub mod Ends
pub mod Ready
