-- The method of preparing a table and of ending a call.
pub mod MethodPrepared
