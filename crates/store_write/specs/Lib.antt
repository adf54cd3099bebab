-- What is written for a store or a batch that is ready.
pub mod MethodStoring
pub mod MethodClosing
