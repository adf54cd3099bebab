-- What a walker over a lent table hands out.
pub mod Method
pub mod Given
