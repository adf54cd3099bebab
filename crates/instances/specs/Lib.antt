-- Document 01's instances: the bytes, and the table of what each comes to.
pub mod Given
pub mod Spelled
pub mod Table
pub mod Compared
pub mod NotNormal
pub mod Broken
pub mod Listed
pub mod Answers
pub mod Longer
pub mod RoundListed
pub mod MethodRan
pub mod MethodFitting
