-- What filling a table comes to, and the reply of an operation.
pub mod Method
pub mod MethodReply
