-- What a program sees of the C functions, what it keeps, and what demand 3 says of that.
pub mod Step
pub mod Program
pub mod OnCode
