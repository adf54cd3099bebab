-- What the calls that write nothing hand out, and their method.
pub mod Lent
pub mod Method
