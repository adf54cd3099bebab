-- What the first bytes of an input decide.
pub mod Front
