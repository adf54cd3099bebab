-- The laws that the rows are proved by.
pub mod Ids
pub mod Cells
pub mod Walking
pub mod FirstLacking
