-- What the exported functions leave behind.
pub mod Called
