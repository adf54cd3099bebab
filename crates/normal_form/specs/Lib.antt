-- The method of the test of normal form on bytes.
pub mod MethodNormal
pub mod MethodOrder
