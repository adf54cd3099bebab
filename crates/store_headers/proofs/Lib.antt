-- The laws of the headers.
pub mod Headers
