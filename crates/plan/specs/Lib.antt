-- What the functions of planning leave behind.
pub mod Method
